pub mod Refusals
pub mod Items
pub mod Durations
pub mod Kubernetes
pub mod Views
pub mod Inner
