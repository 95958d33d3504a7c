pub mod Mend
pub mod Check
pub mod Steps
