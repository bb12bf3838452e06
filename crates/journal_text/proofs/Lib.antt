pub mod Fields
pub mod Parts
pub mod Names
pub mod Questions
pub mod Events
pub mod Lines
pub mod Sequence
