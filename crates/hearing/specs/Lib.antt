pub mod Guess
pub mod Meant
pub mod Counts
