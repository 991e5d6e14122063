pub mod Stands
pub mod Turns
pub mod Streams
