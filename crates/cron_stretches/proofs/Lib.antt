pub mod StretchLemmas
pub mod FireLemmas
