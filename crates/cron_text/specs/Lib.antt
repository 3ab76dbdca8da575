pub mod Tokens
pub mod Fields
pub mod Meaning
pub mod Fault
pub mod FaultText
pub mod TextLaws
pub mod Inner
