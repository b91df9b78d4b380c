pub mod Record
pub mod Change
pub mod Reading
pub mod Pass
pub mod Carrier
