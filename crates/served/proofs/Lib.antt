pub mod Serving
pub mod Due
pub mod Worked
pub mod Framed
