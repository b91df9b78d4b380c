pub mod Send
pub mod Step
pub mod Refusals
