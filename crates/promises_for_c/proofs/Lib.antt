pub mod Records
pub mod Receiving
pub mod SameAsTheBridge
pub mod DemandsForC
pub mod Examples
