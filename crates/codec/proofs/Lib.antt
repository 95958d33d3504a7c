pub mod Dividing
pub mod Changes
pub mod Deciding
pub mod Answering
