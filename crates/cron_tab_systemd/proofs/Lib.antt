pub mod MadeLemmas
pub mod ZoneLemmas
