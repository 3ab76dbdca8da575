pub mod Counts
pub mod Cuts
pub mod Crontabs
pub mod Alone
pub mod LawLemmas
