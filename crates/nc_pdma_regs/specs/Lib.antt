pub mod Control
pub mod Config
pub mod Table
pub mod Registers
pub mod Writes
pub mod Moves
pub mod Laws
