pub mod Places
pub mod Ahead
pub mod Rows
pub mod Parts
pub mod Laws
