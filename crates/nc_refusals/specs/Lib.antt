pub mod Refused
pub mod Returned
pub mod Laws
