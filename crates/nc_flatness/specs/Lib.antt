pub mod Lending
pub mod Books
pub mod Tokens
pub mod Plans
pub mod Copying
pub mod Flatness
pub mod Steps
