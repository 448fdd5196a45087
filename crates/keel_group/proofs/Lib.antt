pub mod Zipping
pub mod Sizing
pub mod Dividing
