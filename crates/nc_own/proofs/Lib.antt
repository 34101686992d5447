pub mod Follows
pub mod Alike
pub mod Views
pub mod Tilings
pub mod Cuts
pub mod Runs
