pub mod Lines
pub mod Places
pub mod Steps
pub mod Promises
