pub mod Quotients
pub mod Numerals
pub mod Inverse
mod Worked
