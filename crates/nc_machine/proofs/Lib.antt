pub mod Starts
pub mod Claims
pub mod Loads
pub mod Keeps
pub mod Fences
