pub mod InPlace
pub mod Steps
