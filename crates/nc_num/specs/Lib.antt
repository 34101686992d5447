pub mod Sizes
pub mod Memory
pub mod Places
pub mod Padded
pub mod Inverse
