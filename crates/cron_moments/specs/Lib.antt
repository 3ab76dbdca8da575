pub mod CivilDates
pub mod Civil
pub mod Calendar
pub mod Readings
pub mod Found
pub mod Parts
pub mod MomentText
pub mod Zones
