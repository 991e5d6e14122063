pub mod Statement
pub mod Follows
