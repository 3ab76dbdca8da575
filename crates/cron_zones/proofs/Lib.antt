pub mod NameLemmas
pub mod ColonLemmas
