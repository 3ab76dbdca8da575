pub mod Reading
pub mod Spans
