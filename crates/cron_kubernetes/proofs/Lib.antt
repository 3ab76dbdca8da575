pub mod NumberLemmas
pub mod ItemLemmas
pub mod FieldLemmas
pub mod DurationLemmas
pub mod TextLemmas
