pub mod Newest
pub mod Live
pub mod Laws
pub mod Ranges
pub mod Merging
