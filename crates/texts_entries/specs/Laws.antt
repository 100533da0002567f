pub mod FiledLaws
pub mod TextEntryLaws
