pub mod Safe
pub mod Owned
pub mod Due
