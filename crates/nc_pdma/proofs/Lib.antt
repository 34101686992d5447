pub mod Sound
pub mod Claim
pub mod Transactions
pub mod StepLaws
