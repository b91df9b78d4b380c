pub mod Faults
pub mod Composing
pub mod Sending
pub mod Worked
