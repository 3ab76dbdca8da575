pub mod RunLemmas
pub mod Examples
pub mod InstantLemmas
pub mod Callers
pub mod ResumedLemmas
pub mod ReadLemmas
pub mod OnLiterals
