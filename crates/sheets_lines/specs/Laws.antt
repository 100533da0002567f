pub mod FindingLaws
pub mod PlacedLaws
pub mod PlanMarks
pub mod SheetLaws
pub mod TaskLines
