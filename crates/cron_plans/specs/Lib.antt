pub mod Plans
pub mod Tables
pub mod Inner
