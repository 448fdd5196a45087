pub mod Drafts
pub mod Gathering
pub mod TablesInMemory
