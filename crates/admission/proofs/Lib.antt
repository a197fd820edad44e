pub mod Buckets
pub mod Tests
