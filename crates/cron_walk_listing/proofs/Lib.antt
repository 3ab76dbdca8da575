pub mod Lines
pub mod KeptLines
