pub mod Comparisons
pub mod Inner
