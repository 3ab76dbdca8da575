pub mod Zones
pub mod Messages
pub mod Entries
pub mod Lines
