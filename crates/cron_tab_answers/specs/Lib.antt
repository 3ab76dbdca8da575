pub mod Checks
pub mod Faults
pub mod TabRows
pub mod TabFiles
pub mod Explained
pub mod Inner
