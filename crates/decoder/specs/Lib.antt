pub mod Quick
pub mod Follows
