pub mod Parts
pub mod Files
pub mod Names
pub mod Telling
pub mod Choosing
