pub mod polls
pub mod events
pub mod runs
