pub mod Latest
pub mod Rolling
pub mod Stages
pub mod Steps
