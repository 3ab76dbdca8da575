pub mod Names
pub mod Sources
pub mod Zones
pub mod Messages
pub mod Opening
