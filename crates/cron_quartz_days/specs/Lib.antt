pub mod Runs
pub mod Workdays
pub mod Texts
pub mod Ranges
