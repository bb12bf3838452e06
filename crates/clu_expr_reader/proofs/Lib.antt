pub mod Nodes
pub mod ShapeSteps
pub mod ExprSteps
pub mod Unwinding
pub mod Turns
pub mod Faulting
