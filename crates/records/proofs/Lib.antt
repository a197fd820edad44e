pub mod Integers
pub mod Machine
pub mod ExactTime
pub mod Soundness
pub mod Promises
