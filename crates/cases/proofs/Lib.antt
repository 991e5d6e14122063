pub mod Computing
pub mod Starred
pub mod Example
