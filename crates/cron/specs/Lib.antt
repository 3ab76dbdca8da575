pub mod Plan
pub mod Json
pub mod Turns
pub mod Examples
pub mod Headline
pub mod Instants
pub mod Resumed
pub mod Words
