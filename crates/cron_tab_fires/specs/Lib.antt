pub mod Fires
pub mod Entries
pub mod Laws
pub mod Errors
