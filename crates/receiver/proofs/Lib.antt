pub mod Faults
pub mod Gathers
mod Searching
mod Taking
mod Giving
