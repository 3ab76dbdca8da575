pub mod CivilLemmas
pub mod DateLemmas
pub mod NumberLemmas
pub mod MarchLemmas
pub mod ReadingLemmas
pub mod FoundLemmas
pub mod PartLemmas
