pub mod Bounds
pub mod Cursor
pub mod Ways
pub mod Rest
pub mod Resume
pub mod Laws
pub mod FixedLaws
pub mod Inner
