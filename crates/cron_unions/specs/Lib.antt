pub mod Unions
pub mod UnionLaws
pub mod Nearest
pub mod Units
pub mod Inner
