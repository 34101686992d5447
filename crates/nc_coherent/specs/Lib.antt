pub mod Pages
pub mod Areas
