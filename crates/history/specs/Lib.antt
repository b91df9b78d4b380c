pub mod Heard
pub mod Run
pub mod Waiting
pub mod Copies
