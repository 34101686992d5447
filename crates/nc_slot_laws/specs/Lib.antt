pub mod Slots
pub mod Looks
