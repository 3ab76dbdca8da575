pub mod Stretches
pub mod Laws
pub mod Fires
