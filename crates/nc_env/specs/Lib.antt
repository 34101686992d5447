pub mod Enables
