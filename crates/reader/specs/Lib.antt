pub mod Hands
pub mod Before
