pub mod Lengths
pub mod Common
pub mod Differences
