pub mod CutSets
pub mod Issued
