pub mod Tracked
pub mod Formulas
pub mod Places
pub mod State
