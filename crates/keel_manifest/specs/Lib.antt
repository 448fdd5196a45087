pub mod Current
pub mod State
pub mod Rolls
