pub mod Owners
pub mod Rights
pub mod Grants
pub mod Touches
pub mod Flat
pub mod Kept
pub mod Laws
