pub mod Sound
pub mod HandOver
pub mod Release
pub mod World
pub mod Quiet
pub mod Hops
