pub mod Digits
pub mod Decimal
pub mod Pairs
pub mod Places
