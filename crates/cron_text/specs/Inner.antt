pub mod FieldReading
pub mod TextReading
pub mod Views
pub mod Places
pub mod Faults
pub mod Numbers
pub mod PlainReading
