pub mod Examples
pub mod Opened
pub mod PlanRefusals
