pub mod CalendarNames
pub mod Nearest
pub mod ZoneNames
