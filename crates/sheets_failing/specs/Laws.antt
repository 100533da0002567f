pub mod FailingLines
pub mod PlacedLaws
