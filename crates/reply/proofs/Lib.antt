pub mod Fixed
pub mod Lengths
pub mod Endings
