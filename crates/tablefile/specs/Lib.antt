pub mod BigEndian
pub mod Layout
pub mod Answers
pub mod Meaning
pub mod Figures
