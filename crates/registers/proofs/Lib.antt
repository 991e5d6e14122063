pub mod TableLaws
pub mod LoadLaws
pub mod RegisterLaws
