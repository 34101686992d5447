pub mod BookRows
pub mod Frames
pub mod TurnBytes
pub mod Sides
pub mod Lots
pub mod Blocks
pub mod OpenRows
pub mod BackRows
