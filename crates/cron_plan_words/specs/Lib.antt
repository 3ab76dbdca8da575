pub mod Options
pub mod Steps
pub mod Telling
pub mod Inner
