pub mod Fate
pub mod Copies
pub mod Order
