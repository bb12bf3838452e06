pub mod Locks
pub mod Objects
pub mod Semaphores
