pub mod Reads
pub mod Accepted
pub mod Judging
pub mod Parts
