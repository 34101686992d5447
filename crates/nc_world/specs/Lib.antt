pub mod WorldView
pub mod State
pub mod Inside
pub mod Looks
pub mod Steps
