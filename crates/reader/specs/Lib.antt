pub mod Reader
pub mod File
pub mod RoundTrip
pub mod Figures
