pub mod WordLemmas
pub mod FireLemmas
