pub mod Acts
pub mod Expiry
pub mod Seen
