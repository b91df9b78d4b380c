pub mod Needing
pub mod Sending
pub mod Capping
pub mod Accepted
pub mod Commands
pub mod Giving
