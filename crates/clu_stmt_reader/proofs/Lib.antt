pub mod Iters
pub mod Loops
pub mod Nodes
pub mod Steps
