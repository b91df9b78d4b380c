pub mod Fault
pub mod Compose
pub mod Worked
