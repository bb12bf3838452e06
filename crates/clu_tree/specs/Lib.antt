pub mod Lexical
pub mod Typed
