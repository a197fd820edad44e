pub mod Decimal
pub mod Places
pub mod Numeral
pub mod Puts
