pub mod Paths
pub mod Outcomes
pub mod Json
pub mod Numbers
pub mod Values
