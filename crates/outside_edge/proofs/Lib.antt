mod Filling
mod Reading
pub mod Writing
