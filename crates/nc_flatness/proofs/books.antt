pub mod Loans
pub mod Owned
pub mod Areas
pub mod WholeBlocks
pub mod Seen
pub mod BookReads
pub mod Regions
