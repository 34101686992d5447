pub mod HartState
pub mod Issue
