pub mod RoundTrip
pub mod Counts
pub mod Placed
pub mod Wishes
pub mod Sendirs
pub mod Refused
pub mod Accepted
