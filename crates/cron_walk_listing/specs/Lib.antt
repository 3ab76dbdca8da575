pub mod Digits
pub mod Output
pub mod Arguments
pub mod Answers
pub mod Pages
