pub mod channels
pub mod drains
pub mod tokens
pub mod WorldNow
pub mod MoveLaws
