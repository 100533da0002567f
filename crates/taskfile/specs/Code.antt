pub mod Choices
pub mod JudgingParts
pub mod Reading
pub mod ReadingParts
pub mod RecordFields
pub mod Refusals
pub mod WellMade
