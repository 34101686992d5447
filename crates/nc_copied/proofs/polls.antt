pub mod LastSteps
pub mod PlanTurns
pub mod EndLots
pub mod BehindPoll
pub mod LastAnswers
pub mod LastOwners
