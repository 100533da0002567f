pub mod FilledLaws
pub mod ListedLaws
pub mod ReadLaws
pub mod TimedLaws
