pub mod Rows
pub mod Collisions
