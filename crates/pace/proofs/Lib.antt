pub mod Bounds
pub mod Summing
pub mod Keeps
pub mod Exact
pub mod Lasting
