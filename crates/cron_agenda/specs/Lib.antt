pub mod Fires
pub mod Entries
pub mod Merged
pub mod Laws
pub mod Inner
pub mod Messages
