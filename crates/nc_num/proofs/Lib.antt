pub mod Blocks
pub mod MemoryLaws
pub mod Tiling
