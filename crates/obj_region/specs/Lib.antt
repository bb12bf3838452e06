pub mod Answers
pub mod Ranges
pub mod Scratch
pub mod Store
