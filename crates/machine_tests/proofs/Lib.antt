pub mod Acts
pub mod Arrays
pub mod Runnable
pub mod Sequential
pub mod Stepping
pub mod Structured
pub mod Trials
