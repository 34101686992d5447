pub mod OwnRows
pub mod Passes
pub mod Places
pub mod Besides
pub mod Waits
pub mod OwnPlaces
