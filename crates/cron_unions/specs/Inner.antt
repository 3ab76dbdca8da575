pub mod Heads
pub mod Covers
pub mod Merges
pub mod Cursor
