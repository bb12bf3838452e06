pub mod Names
pub mod Rows
pub mod Stacks
pub mod Unwinding
