pub mod Spans
pub mod Buckets
pub mod Judging
pub mod Natural
pub mod Promises
