pub mod Reading
pub mod Words
pub mod Decimals
pub mod Behind
pub mod Limits
pub mod Appended
