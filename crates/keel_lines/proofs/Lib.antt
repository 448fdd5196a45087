pub mod Deliveries
mod Lefts
mod Newlines
mod Parts
pub mod Texts
