pub mod Record
pub mod Piece
pub mod Calls
