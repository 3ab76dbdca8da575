pub mod Values
pub mod Units
pub mod Sayable
pub mod Texts
pub mod Services
pub mod Timers
pub mod Errors
