pub mod Names
pub mod Tasks
pub mod Told
