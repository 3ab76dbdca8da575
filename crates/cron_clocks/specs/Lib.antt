pub mod Clocks
pub mod Transitions
pub mod Spans
pub mod Steady
pub mod Tables
pub mod Seasons
