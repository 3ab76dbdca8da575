pub mod Plans
pub mod Runs
pub mod Laws
pub mod Passing
