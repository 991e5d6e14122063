pub mod Answers
pub mod Judges
pub mod Guard
pub mod Rulings
