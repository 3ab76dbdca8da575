pub mod Seconds
pub mod Matches
pub mod Timeline
pub mod Search
pub mod Walk
