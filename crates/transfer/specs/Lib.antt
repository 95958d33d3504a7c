pub mod Steps
pub mod Runs
pub mod Answers
pub mod Promise
pub mod Kept
