pub mod Entries
pub mod Keys
pub mod Rows
pub mod Changes
pub mod Reports
pub mod Twins
