pub mod Fields
pub mod Read
pub mod Given
