pub mod Written
pub mod Tests
pub mod Warnings
pub mod Files
pub mod Clocks
pub mod Messages
