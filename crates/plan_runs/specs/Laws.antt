pub mod ByteLaws
pub mod FlagLaws
pub mod JobLaws
pub mod JobsLaws
pub mod LentSteps
pub mod NextStepLaws
pub mod PlanRunLaws
pub mod StepLaws
