pub mod Copies
pub mod CopySteps
pub mod Rests
pub mod Lasts
pub mod LendingPlans
