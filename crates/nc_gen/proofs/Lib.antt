pub mod Accepting
pub mod Answering
pub mod Joined
