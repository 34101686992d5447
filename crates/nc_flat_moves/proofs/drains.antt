pub mod Pooled
pub mod CopiesBeside
pub mod LosesRows
pub mod Calm
pub mod Drains
pub mod Moves
pub mod MoreRegisters
pub mod RegisterDrains
