pub mod TestLemmas
pub mod EscapeLemmas
pub mod SignLemmas
pub mod WordLemmas
pub mod LineLemmas
pub mod ServiceLemmas
pub mod TimerLemmas
pub mod ChainLemmas
