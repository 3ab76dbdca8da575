pub mod Fields
pub mod Refusals
pub mod Items
pub mod Crontab
pub mod Fews
pub mod Views
pub mod Inner
