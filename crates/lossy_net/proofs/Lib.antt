pub mod Edits
pub mod Order
pub mod Counts
pub mod Places
