pub mod Refusals
pub mod Manifests
pub mod Listed
pub mod TableAnswers
pub mod NextFiles
pub mod Bases
pub mod Laws
pub mod Stores
