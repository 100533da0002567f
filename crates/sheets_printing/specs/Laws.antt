pub mod LineLaws
pub mod SpacedLaws
