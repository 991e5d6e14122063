pub mod ReleaseLaws
pub mod HandOverLaws
pub mod SoundLaws
pub mod HeadLaws
pub mod QuietLaws
pub mod Settled
