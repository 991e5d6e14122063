pub mod Spent
pub mod Hops
