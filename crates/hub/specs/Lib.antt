pub mod Record
pub mod Line
pub mod Calls
pub mod Completions
pub mod Wait
pub mod Refusals
pub mod Closing
