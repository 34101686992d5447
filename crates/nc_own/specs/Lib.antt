pub mod Tiles
pub mod Books
pub mod Laws
