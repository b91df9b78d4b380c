pub mod Place
pub mod Name
pub mod Address
pub mod Mode
pub mod Request
pub mod Accepted
