pub mod ExactTime
pub mod Sound
pub mod Numbers
pub mod Judged
pub mod Steps
pub mod Promises
