pub mod Moves
pub mod Sides
pub mod Words
pub mod Adds
pub mod Lists
