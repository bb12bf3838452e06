pub mod Steps
pub mod Names
pub mod Adding
pub mod Whole
