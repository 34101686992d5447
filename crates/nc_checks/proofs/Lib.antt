pub mod Others
pub mod RangeLaws
