pub mod HexDigits
pub mod Parts
