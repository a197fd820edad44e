pub mod Bytes
pub mod Waiting
pub mod Line
pub mod TableFile
pub mod InterruptSide
pub mod Listing
pub mod Yard
pub mod Sessions
