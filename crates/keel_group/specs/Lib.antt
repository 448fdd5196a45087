pub mod Queue
pub mod Sizes
pub mod Forming
pub mod Keeping
pub mod Laws
