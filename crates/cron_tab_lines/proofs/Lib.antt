pub mod EntryLemmas
pub mod PercentLemmas
pub mod SettingLemmas
pub mod FileLemmas
