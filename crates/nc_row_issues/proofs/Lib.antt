pub mod PlacePushes
pub mod LentPushes
pub mod RowIssues
