pub mod Numbers
pub mod Parts
pub mod Symbols
pub mod Fronts
pub mod Bytes
pub mod Places
pub mod Filling
pub mod Answering
