pub mod Quiet
pub mod Pieces
pub mod Turning
pub mod Feeding
pub mod Bytes
pub mod Cutting
pub mod Serving
