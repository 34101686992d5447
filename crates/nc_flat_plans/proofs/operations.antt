pub mod Copies
pub mod Puts
pub mod Cbos
pub mod Backs
pub mod Fences
pub mod Stores
pub mod Loads
pub mod Takes
