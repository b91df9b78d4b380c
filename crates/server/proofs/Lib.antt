pub mod Joining
pub mod Keeps
