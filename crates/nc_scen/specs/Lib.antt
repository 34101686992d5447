pub mod Events
pub mod Regions
pub mod Accepted
pub mod Keys
pub mod Tokens
pub mod Parts
pub mod Reading
pub mod Fits
