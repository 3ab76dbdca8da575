pub mod RemainderLemmas
pub mod FieldLemmas
