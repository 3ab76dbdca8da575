pub mod Planned
pub mod Tables
