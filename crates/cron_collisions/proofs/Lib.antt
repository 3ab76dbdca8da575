pub mod BelowLemmas
pub mod FirstLemmas
pub mod OrderLemmas
