pub mod Queue
pub mod Places
