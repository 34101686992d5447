pub mod StepLaws
pub mod LotLaws
pub mod PlanLaws
