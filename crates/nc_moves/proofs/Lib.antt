pub mod MoveLaws
pub mod TurnLaws
