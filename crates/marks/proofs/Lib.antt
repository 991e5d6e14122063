pub mod LengthLaws
pub mod FlagLaws
pub mod MarkLaws
