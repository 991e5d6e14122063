pub mod FetchLaws
pub mod StepLaws
pub mod UniqueLaws
