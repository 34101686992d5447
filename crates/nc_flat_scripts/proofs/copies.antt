pub mod OtherCopies
pub mod TransferRows
pub mod TransferFrames
pub mod TransferPolls
pub mod TransferCopies
pub mod TransferDrivers
pub mod TransferEvents
pub mod TransferCopied
