pub mod Outcomes
pub mod Trials
pub mod WalkParts
