pub mod Tables
pub mod Applying
pub mod Picking
pub mod Ranges
pub mod Behind
pub mod Lookup
