pub mod CodeText
pub mod Sendir
