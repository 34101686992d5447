pub mod Held
pub mod Changes
pub mod Messages
pub mod Tokens
pub mod Rests
pub mod Holds
