pub mod CheckLemmas
pub mod TabLemmas
pub mod ExplainedLemmas
