pub mod EntryLaws
pub mod JobWordsLaws
pub mod RunSizes
