pub mod Formulas
pub mod Names
pub mod State
pub mod Next
pub mod Steps
pub mod Laws
