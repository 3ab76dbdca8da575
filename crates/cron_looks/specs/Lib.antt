pub mod Waits
pub mod Looks
pub mod Formats
pub mod Times
