pub mod NumberLemmas
pub mod ObjectLemmas
pub mod TextLemmas
