pub mod Transfers
pub mod Bytes
pub mod Laws
