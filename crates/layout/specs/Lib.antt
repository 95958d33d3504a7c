pub mod Words
pub mod Places
pub mod Mapped
pub mod First
pub mod Cleared
