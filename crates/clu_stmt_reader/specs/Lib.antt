pub mod Bodies
pub mod Kinds
pub mod Loops
pub mod Parts
pub mod Places
