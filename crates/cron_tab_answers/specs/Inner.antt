pub mod Checks
pub mod TabRows
