pub mod LineLemmas
pub mod Telling
pub mod Putting
pub mod ReadLemmas
