pub mod Statuses
pub mod Telling
pub mod Inner
