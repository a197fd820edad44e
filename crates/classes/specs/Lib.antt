pub mod Soundness
pub mod Calls
