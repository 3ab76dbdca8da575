pub mod WordLemmas
pub mod LongerLemmas
pub mod Doubling
