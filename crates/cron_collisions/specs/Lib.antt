pub mod Collisions
pub mod Laws
pub mod Inner
