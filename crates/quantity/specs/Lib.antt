pub mod Kinds
pub mod Ranges
pub mod Charge
pub mod Numbers
