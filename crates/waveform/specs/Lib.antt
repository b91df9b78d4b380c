pub mod Meaning
pub mod Paced
