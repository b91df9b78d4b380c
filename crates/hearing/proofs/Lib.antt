pub mod Loops
pub mod Meant
pub mod Back
pub mod Texts
pub mod Counts
