pub mod Writing
pub mod Limits
pub mod Sending
pub mod ReadBack
pub mod Heads
pub mod Bytes
pub mod Forms
