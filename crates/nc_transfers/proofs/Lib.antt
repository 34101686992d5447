pub mod ConfigValues
pub mod SettingUp
pub mod ReadSteps
pub mod WriteSteps
pub mod Telling
pub mod Stages
pub mod Ends
mod Examples
