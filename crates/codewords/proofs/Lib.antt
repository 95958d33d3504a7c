pub mod Numbers
pub mod Mends
pub mod Coding
pub mod Streams
