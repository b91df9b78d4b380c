pub mod Covering
pub mod Naming
pub mod Shorts
pub mod Beyond
pub mod Accepted
