pub mod Gathered
pub mod Turns
pub mod Promises
pub mod Figures
pub mod Protocol
