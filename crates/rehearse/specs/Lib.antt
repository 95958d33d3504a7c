pub mod Numbers
pub mod Script
pub mod Report
pub mod Asking
