pub mod Logs
pub mod Refusals
pub mod Replays
pub mod Laws
