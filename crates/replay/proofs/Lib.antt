pub mod PlayLaws
pub mod Settled
pub mod TellLaws
