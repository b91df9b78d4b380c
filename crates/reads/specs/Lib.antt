pub mod Readings
pub mod Meant
