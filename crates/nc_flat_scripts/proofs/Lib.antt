pub mod accesses
pub mod handing
pub mod copies
pub mod steps
