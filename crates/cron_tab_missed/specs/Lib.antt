pub mod Missed
pub mod Entries
pub mod Errors
pub mod Rows
pub mod Reports
pub mod Inner
