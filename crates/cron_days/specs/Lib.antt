pub mod Days
pub mod Rules
pub mod Refusals
pub mod Kinds
pub mod Sets
pub mod Moved
pub mod Laws
pub mod Inner
