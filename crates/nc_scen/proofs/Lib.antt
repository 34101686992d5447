pub mod Items
pub mod Apart
pub mod Accepting
