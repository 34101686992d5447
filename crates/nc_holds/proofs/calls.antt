pub mod Plans
pub mod New
pub mod Shapes
pub mod Starts
pub mod Told
pub mod Done
