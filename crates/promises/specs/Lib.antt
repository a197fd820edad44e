pub mod Demand1
pub mod Demand2
pub mod RoundTrip
pub mod Demand3
pub mod Independence
pub mod Discards
pub mod Examples
