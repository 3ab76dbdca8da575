pub mod Sending
pub mod Gathering
pub mod Calling
