pub mod InRam
pub mod PteWords
