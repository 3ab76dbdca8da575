pub mod Totals
pub mod Times
pub mod Parts
