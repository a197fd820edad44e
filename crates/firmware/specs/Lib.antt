pub mod Firmware
pub mod Steps
pub mod Promises
