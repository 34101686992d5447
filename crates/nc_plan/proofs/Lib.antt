pub mod PieceLaws
pub mod PlanLaws
