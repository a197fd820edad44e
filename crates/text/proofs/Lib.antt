pub mod Digits
pub mod Stores
pub mod Numerals
pub mod Putting
pub mod Widths
