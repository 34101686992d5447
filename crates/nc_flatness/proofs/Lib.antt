pub mod books
pub mod tokens
pub mod plans
pub mod worlds
