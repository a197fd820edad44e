pub mod WideNumbers
pub mod LentRecords
pub mod Promises
