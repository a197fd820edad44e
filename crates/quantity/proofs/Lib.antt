pub mod Booleans
pub mod Ranges
pub mod Order
pub mod Charging
pub mod Refusals
