pub mod Texts
pub mod Placing
pub mod Endings
pub mod Promises
