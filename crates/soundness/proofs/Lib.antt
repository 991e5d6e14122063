pub mod StepLaws
pub mod SpentLaws
pub mod CountLaws
pub mod CountedLaws
pub mod LoopLaws
pub mod BookLaws
