pub mod Stepping
pub mod Calls
pub mod Underway
pub mod Promises
