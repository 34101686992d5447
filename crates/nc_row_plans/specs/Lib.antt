pub mod Laws
pub mod Begins
pub mod Plans
