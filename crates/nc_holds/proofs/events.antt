pub mod Given
pub mod Hart
pub mod Moves
pub mod Calls
pub mod From
pub mod Steps
pub mod Holds
pub mod Last
