pub mod Watching
pub mod Calls
