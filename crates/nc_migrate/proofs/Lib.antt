pub mod Binds
pub mod Read
pub mod Plain
pub mod OpsPlain
pub mod Accepted
pub mod Raised
pub mod LineEnd
pub mod Law
