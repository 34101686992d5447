pub mod Loops
pub mod Items
