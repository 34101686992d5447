pub mod Tokens
pub mod SentLots
pub mod GivenWorld
pub mod TokenBytes
pub mod GivenCopies
