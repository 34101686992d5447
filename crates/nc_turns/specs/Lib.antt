pub mod Named
pub mod Threads
pub mod Draws
pub mod States
pub mod Played
