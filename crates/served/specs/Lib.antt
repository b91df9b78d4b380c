pub mod Events
pub mod Told
pub mod Serving
pub mod Due
pub mod Framed
