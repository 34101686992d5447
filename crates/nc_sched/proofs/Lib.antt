pub mod Coming
pub mod Again
pub mod There
