pub mod Run
pub mod Events
pub mod Promises
pub mod Firsts
