pub mod Faults
pub mod Gives
pub mod Keys
pub mod Parts
pub mod Nests
