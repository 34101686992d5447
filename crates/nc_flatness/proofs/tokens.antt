pub mod Tokens
pub mod Lents
pub mod Stands
