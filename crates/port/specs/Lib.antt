pub mod Event
pub mod Turn
pub mod Run
pub mod Bytes
pub mod Serve
