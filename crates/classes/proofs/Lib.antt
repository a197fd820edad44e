pub mod Scans
pub mod Dues
pub mod Calls
