pub mod Gathering
pub mod Steps
pub mod Promises
