pub mod CheckLaws
pub mod GuessLaws
pub mod LegalityLaws
pub mod PlanEntryLaws
