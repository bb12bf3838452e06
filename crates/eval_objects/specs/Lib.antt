pub mod Arms
pub mod Seen
