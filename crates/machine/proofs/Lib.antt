pub mod LeavesLaws
pub mod FreshLaws
pub mod Settled
