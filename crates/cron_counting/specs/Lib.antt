pub mod Counts
pub mod CountLaws
pub mod Inner
