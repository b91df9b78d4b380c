pub mod Limits
pub mod Letters
pub mod Next
pub mod Read
pub mod Accepted
