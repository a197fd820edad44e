pub mod Records
pub mod Listing
pub mod Parts
pub mod Steps
pub mod Promises
pub mod Figures
