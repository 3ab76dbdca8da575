pub mod ClosingLemmas
pub mod WindowLemmas
pub mod LawLemmas
pub mod RunLemmas
