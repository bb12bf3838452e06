pub mod History
pub mod PassView
pub mod Rule
pub mod Seated
pub mod Steps
