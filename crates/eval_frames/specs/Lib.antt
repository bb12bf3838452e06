pub mod Landings
pub mod Places
pub mod Takes
