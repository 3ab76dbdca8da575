pub mod Tabs
pub mod Adding
pub mod Listing
pub mod ChangedDays
pub mod Messages
pub mod Inner
