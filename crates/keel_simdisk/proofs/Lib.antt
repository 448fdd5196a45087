pub mod Answering
pub mod Deciding
pub mod Keeping
pub mod Leaving
pub mod Meeting
pub mod Sizes
pub mod Waiting
