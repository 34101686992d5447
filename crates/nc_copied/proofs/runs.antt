pub mod RunEnds
pub mod CopyRuns
pub mod CopyLaws
