pub mod Words
pub mod Quoted
pub mod Lines
pub mod Inner
