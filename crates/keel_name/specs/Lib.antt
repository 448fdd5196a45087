pub mod Current
pub mod Decimal
pub mod Laws
pub mod Sorting
