pub mod Nexts
pub mod Settled
pub mod Moving
pub mod Promises
pub mod Making
pub mod Protocol
