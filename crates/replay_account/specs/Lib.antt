pub mod Account
pub mod Steps
pub mod Promises
