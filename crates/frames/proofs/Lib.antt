pub mod Keeps
pub mod Reading
