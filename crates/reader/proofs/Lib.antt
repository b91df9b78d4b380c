pub mod Pieces
pub mod Behind
pub mod Runs
pub mod Before
