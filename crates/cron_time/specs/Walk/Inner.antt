pub mod Stand
pub mod Placed
pub mod Stop
