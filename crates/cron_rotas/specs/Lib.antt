pub mod Rotas
pub mod Errors
pub mod Edges
pub mod Steps
pub mod Laws
