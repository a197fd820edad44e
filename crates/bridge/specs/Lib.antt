pub mod Tables
pub mod Calls
pub mod History
pub mod Spans
