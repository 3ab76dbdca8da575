pub mod Findings
pub mod Places
pub mod Texts
pub mod Escapes
pub mod Members
pub mod Reports
