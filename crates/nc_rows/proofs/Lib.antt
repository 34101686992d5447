pub mod PlaceFrames
pub mod Kept
pub mod Steps
