pub mod IntLemmas
pub mod OrderLemmas
pub mod LawLemmas
pub mod RunLemmas
pub mod ScheduleLemmas
pub mod SetLemmas
