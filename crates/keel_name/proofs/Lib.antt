mod Ascending
pub mod Currents
pub mod Decimals
pub mod Listings
pub mod Spellings
