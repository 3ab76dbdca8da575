pub mod NumberLemmas
pub mod SetLemmas
pub mod ItemLemmas
pub mod LetterLemmas
pub mod FormLemmas
