pub mod Scripts
pub mod Drivers
pub mod NewLots
