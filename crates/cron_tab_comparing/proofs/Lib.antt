pub mod TellLemmas
pub mod TwinLemmas
