pub mod OwnerLaws
pub mod GrantLaws
pub mod Faults
pub mod TouchLaws
pub mod FlatLaws
pub mod LatestLaws
mod Examples
