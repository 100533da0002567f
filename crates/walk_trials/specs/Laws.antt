pub mod AnswerLaws
pub mod OutcomeLaws
pub mod StartLaws
pub mod TrialLaws
pub mod TryingLaws
pub mod WalkEntryLaws
pub mod WalkStateLaws
