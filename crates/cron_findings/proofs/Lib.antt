pub mod PlaceLemmas
pub mod WritingLemmas
