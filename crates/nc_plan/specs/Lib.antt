pub mod Effects
pub mod Segments
pub mod SegmentsBack
pub mod Accesses
pub mod Registers
pub mod Parts
pub mod Plans
