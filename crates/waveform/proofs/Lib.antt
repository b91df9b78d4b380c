pub mod Copies
pub mod Places
pub mod Paced
pub mod Turning
pub mod Carried
pub mod Meaning
