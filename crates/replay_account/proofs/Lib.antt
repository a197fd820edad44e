pub mod Runs
pub mod Lines
pub mod Parts
pub mod Underway
pub mod Promises
