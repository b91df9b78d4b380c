pub mod Checks
pub mod Lists
pub mod Bytes
pub mod Put
