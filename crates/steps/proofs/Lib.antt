pub mod Keeps
pub mod Deciding
pub mod Refusals
pub mod Contacts
