pub mod Polynomial
pub mod Code
pub mod Errors
