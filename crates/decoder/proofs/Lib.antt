pub mod Shorts
pub mod Follows
pub mod Reading
