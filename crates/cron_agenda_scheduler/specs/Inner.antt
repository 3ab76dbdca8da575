pub mod Picks
