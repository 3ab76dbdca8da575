pub mod Sources
pub mod Cells
pub mod Members
pub mod Writing
