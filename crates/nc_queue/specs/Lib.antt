pub mod Ring
pub mod Entries
pub mod Rules
pub mod QueueState
pub mod Laws
