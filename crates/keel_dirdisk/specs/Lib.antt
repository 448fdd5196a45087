pub mod Answers
pub mod Spending
pub mod Shown
pub mod Opened
pub mod Taking
