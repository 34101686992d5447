pub mod PieceLaws
pub mod StepLaws
