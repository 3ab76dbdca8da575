pub mod Periods
pub mod Shown
