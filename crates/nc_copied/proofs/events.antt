pub mod Told
pub mod Comings
pub mod ZeroSteps
pub mod EventTrace
pub mod IssueBytes
pub mod EventBytes
pub mod EventComes
