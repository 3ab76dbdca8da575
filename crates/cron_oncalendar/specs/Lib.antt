pub mod Calendars
pub mod Zones
pub mod Elapses
pub mod Unions
pub mod Inner
