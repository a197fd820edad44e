pub mod Lines
pub mod Standing
pub mod SoundClasses
pub mod Choosing
pub mod SmallestTimes
pub mod Cases
pub mod Kept
pub mod Promises
