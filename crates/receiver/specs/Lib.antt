pub mod Memory
pub mod Offers
pub mod Asks
