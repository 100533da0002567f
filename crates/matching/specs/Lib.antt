pub mod ConversionEntries
pub mod Conversions
pub mod Demand3
pub mod EntryDemand3
pub mod PlannedSteps
