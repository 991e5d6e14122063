pub mod ReplayLaws
pub mod StandLaws
pub mod FirstLaws
pub mod Settled
pub mod StreamLaws
