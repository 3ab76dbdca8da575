pub mod Classes
pub mod Cuts
