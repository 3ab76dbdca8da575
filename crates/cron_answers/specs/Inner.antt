pub mod Backs
pub mod Digits
pub mod Tallies
pub mod Explanations
