pub mod Keeps
pub mod Meaning
