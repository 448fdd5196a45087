pub mod Files
mod Sums
