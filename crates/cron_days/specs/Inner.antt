pub mod Edges
pub mod Ends
pub mod Reached
pub mod Runs
pub mod Sources
pub mod Starts
pub mod Times
