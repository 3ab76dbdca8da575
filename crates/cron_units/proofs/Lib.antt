pub mod SetLemmas
pub mod PlaceLemmas
pub mod KeyLemmas
pub mod NameLemmas
mod Marks
pub mod Denoting
pub mod DenotedSets
mod NamedSets
pub mod Laid
pub mod Remaining
pub mod Progressions
pub mod Cuts
