pub mod LineAnswerLaws
pub mod OverfullLaws
pub mod PartFieldLaws
pub mod TextReadLaws
