pub mod Bytes
pub mod Labels
pub mod Blocks
pub mod Verdicts
pub mod Symbols
