pub mod NamedBytes
pub mod Pieces
pub mod Granted
pub mod EndPlaces
pub mod ChannelBytes
pub mod ChannelCopies
pub mod ChannelEvents
