pub mod Distinct
pub mod Learnt
pub mod Written
pub mod ItemsRead
pub mod Shown
pub mod Parsed
pub mod Exactly
