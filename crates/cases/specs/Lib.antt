pub mod Scene
pub mod Starred
pub mod Example
