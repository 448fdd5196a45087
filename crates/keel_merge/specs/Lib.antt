pub mod Order
pub mod Merging
pub mod Placing
pub mod Feeding
pub mod Taking
pub mod Laws
