pub mod Calls
pub mod Delivered
pub mod Inputs
pub mod Laws
pub mod Lines
pub mod Orders
pub mod Pieces
