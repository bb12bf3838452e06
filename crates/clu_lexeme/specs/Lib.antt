pub mod Lexemes
pub mod Parts
pub mod Table
