pub mod Calls
pub mod Contents
pub mod Crash
pub mod Laws
pub mod Listings
pub mod Rules
