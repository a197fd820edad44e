pub mod Steps
pub mod Demands
pub mod Queues
pub mod Entries
pub mod Examples
