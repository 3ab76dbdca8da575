pub mod Lines
pub mod Reports
pub mod Reading
pub mod Reads
pub mod Puts
pub mod Checks
pub mod Inner
