pub mod FirstTests
pub mod Stopping
pub mod BootLength
