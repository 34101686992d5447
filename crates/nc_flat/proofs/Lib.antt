mod Dispatch
mod Runs
pub mod FlatLaws
