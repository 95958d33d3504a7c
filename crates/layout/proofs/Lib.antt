pub mod Stream
pub mod Firsts
pub mod Filled
