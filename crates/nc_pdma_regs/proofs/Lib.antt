pub mod Bits
pub mod PowersOfTwo
pub mod Fits
pub mod Claims
