pub mod Adding
pub mod Turning
