pub mod NotingLaws
pub mod OrderPlanEntryLaws
pub mod PlacedLaws
pub mod PlanAgreed
pub mod PutLaws
pub mod RoundLaws
pub mod TraceAgreed
pub mod TraceHeld
