pub mod Number
pub mod Field
pub mod Write
