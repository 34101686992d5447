pub mod MachineLaws
pub mod PlaceLaws
pub mod CallLaws
