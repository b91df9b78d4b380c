pub mod Known
pub mod Shown
pub mod Fits
pub mod View
pub mod Logged
