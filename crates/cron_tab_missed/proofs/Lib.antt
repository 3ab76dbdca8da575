pub mod CountLemmas
pub mod EntryLemmas
pub mod NoteLemmas
pub mod ReportLemmas
pub mod RowLemmas
