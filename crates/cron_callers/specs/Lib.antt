pub mod Alarms
pub mod Items
pub mod Literals
