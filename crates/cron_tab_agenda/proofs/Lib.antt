pub mod TakenLemmas
pub mod ChangeLemmas
