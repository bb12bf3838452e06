pub mod Ends
pub mod Ints
pub mod Texts
pub mod Ops
