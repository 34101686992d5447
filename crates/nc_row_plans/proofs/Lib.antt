pub mod PlanPushes
pub mod PlanEnds
pub mod PlanBegins
pub mod LendingPlans
pub mod ReturningPlans
