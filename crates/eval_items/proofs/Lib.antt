pub mod Arms
pub mod Fields
pub mod Rounds
pub mod Rows
pub mod Settings
pub mod Taking
