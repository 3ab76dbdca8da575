pub mod PlaceLemmas
pub mod ListLemmas
pub mod JoinedLemmas
pub mod TimelineLemmas
pub mod TimelineLaws
pub mod Searches
pub mod Walks
