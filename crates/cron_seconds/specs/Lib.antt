pub mod Rules
pub mod Runs
pub mod Schedules
pub mod Laws
