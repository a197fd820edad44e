pub mod Answers
pub mod Failures
pub mod Calls
