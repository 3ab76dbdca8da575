pub mod Fields
pub mod Refusals
pub mod Items
pub mod Days
pub mod Quartz
pub mod Views
pub mod FormViews
pub mod Inner
