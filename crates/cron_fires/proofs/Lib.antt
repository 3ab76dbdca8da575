pub mod LawLemmas
pub mod MatchLemmas
pub mod AgreeLemmas
