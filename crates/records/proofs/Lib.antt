pub mod RecordLaws
pub mod SizeLaws
pub mod LineLaws
pub mod PrintLaws
pub mod DigitLaws
