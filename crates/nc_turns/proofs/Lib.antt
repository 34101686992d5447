pub mod Runs
pub mod Begins
pub mod Counted
pub mod Nexts
pub mod Searches
pub mod Ends
pub mod Rounds
pub mod Replays
