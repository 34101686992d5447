pub mod ScriptCalls
pub mod StillLots
pub mod StepFrames
