pub mod Plain
pub mod Tells
mod CountLaws
mod TouchLaws
