pub mod Calls
pub mod Numbers
