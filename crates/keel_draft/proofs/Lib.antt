pub mod Drafting
pub mod Newest
pub mod Pieces
