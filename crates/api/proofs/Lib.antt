pub mod CrossingLaws
pub mod Settled
