pub mod areas
pub mod light
pub mod operations
pub mod places
pub mod drivers
