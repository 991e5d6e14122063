pub mod Steps
pub mod Transmit
pub mod Receive
pub mod Quiet
pub mod Engines
