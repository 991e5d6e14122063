pub mod Kinds
pub mod Parts
