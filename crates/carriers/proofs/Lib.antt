pub mod Meanings
mod Windows
