pub mod Heard
pub mod Tally
