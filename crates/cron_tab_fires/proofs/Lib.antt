pub mod AscendLemmas
pub mod EntryLemmas
