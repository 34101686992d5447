pub mod Members
pub mod Changes
