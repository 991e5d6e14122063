pub mod WindowLaws
pub mod Settled
