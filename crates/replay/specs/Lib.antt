pub mod Replay
pub mod Plays
