pub mod Passing
pub mod Blocks
mod Loading
mod Pairs
mod Searching
