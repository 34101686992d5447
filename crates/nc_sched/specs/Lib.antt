pub mod Stands
pub mod Replay
