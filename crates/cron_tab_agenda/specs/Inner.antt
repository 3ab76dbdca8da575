pub mod Pushes
pub mod Changes
