pub mod EntryLaws
pub mod RowLaws
pub mod StepValueLaws
pub mod WriteLaws
