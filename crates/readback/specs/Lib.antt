pub mod RoundTrip
pub mod Composed
