pub mod Cursor
pub mod Bytewise
pub mod Codes
pub mod Rows
