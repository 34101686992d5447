pub mod Bared
pub mod Marks
pub mod LineLaws
pub mod Gains
