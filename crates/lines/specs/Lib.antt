pub mod Cut
pub mod Take
pub mod Feed
