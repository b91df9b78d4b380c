pub mod Line
pub mod Time
pub mod Lamp
pub mod Log
pub mod Table
