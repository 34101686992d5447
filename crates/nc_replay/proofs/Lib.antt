pub mod Plain
pub mod Parts
pub mod Lines
pub mod Tokens
pub mod Runs
