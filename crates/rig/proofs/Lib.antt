pub mod PartLaws
pub mod Settled
