pub mod Rising
pub mod Walking
pub mod Orderly
