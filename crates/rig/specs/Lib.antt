pub mod Record
pub mod Lent
