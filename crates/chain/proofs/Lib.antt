pub mod ChainLaws
pub mod HandLaws
pub mod VerdictLaws
pub mod Settled
