pub mod Turns
pub mod Standing
pub mod Levels
pub mod Newest
pub mod Members
pub mod Ranges
pub mod Coming
