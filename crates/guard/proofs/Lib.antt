pub mod JudgeLaws
pub mod ChainLaws
pub mod GivesLaws
pub mod ClassLaws
pub mod AckLaws
pub mod Settled
