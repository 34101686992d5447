pub mod Bus
pub mod Channel
pub mod Steps
pub mod Laws
