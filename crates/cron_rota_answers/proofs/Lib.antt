pub mod CellLemmas
pub mod NameLemmas
pub mod SwapLemmas
pub mod RowLemmas
pub mod AnswerLemmas
