pub mod Columns
pub mod PlanWritten
pub mod Tracing
