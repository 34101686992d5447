pub mod Texts
pub mod Operations
pub mod Fits
