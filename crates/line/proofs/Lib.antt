pub mod Noting
pub mod Searches
pub mod Sending
pub mod Settling
pub mod Turns
pub mod Happening
pub mod Promises
pub mod Pieces
