pub mod Smallest
pub mod Lettering
pub mod Nexts
pub mod Answers
pub mod Accepted
