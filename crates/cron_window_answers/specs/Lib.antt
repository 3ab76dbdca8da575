pub mod Texts
pub mod Rows
pub mod Listings
pub mod States
pub mod Windows
pub mod Answers
pub mod Gathering
