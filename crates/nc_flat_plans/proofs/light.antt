pub mod StepTokens
pub mod LightSteps
pub mod Posted
pub mod LightEvents
