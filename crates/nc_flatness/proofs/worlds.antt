pub mod Trace
pub mod FlatBytes
pub mod Outcomes
pub mod Worlds
pub mod StartOwners
pub mod Starts
