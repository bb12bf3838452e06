pub mod Servers
pub mod Tables
