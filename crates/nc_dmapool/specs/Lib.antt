pub mod Layouts
pub mod Pieces
pub mod Marks
pub mod Apart
