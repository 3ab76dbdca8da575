pub mod Systems
pub mod Times
pub mod Found
pub mod Messages
pub mod Inner
