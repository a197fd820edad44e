pub mod Frame
pub mod Numbers
pub mod Figures
pub mod Steps
pub mod Natural
