pub mod opening
pub mod areas
pub mod going
pub mod turning
