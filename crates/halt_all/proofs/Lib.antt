pub mod Flags
pub mod Newest
pub mod Viewed
