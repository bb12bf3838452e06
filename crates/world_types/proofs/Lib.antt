pub mod Clocks
pub mod Cuts
