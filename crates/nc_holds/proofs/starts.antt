pub mod Regions
pub mod Holds
