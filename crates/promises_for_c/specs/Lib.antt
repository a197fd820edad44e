pub mod Lent
pub mod SameAsTheBridge
pub mod DemandsForC
pub mod Examples
