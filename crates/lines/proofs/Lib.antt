pub mod Taking
pub mod Keeps
pub mod Cutting
pub mod Feeding
