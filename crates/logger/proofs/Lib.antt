pub mod Loops
pub mod Plain
pub mod Tallies
