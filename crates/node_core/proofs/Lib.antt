pub mod Acts
pub mod Expiring
pub mod Starts
pub mod Turns
