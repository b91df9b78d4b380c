pub mod Inserting
pub mod Waiting
pub mod Parts
pub mod Answering
pub mod Keeps
pub mod Refusals
pub mod Marks
pub mod Contacts
