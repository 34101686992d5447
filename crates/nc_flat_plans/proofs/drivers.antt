pub mod Drivers
pub mod Shifts
pub mod OwnCopies
pub mod StepFrames
pub mod StepQueues
pub mod StepSeen
pub mod Issues
pub mod PlanEvents
