pub mod Ends
pub mod Replay
pub mod Script
pub mod Top
pub mod Usage
