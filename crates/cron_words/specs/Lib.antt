pub mod Clocks
pub mod Progressions
pub mod Lists
pub mod Schedules
pub mod Shapes
pub mod Sentence
pub mod Waits
