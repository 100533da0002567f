pub mod Filled
pub mod ReadParts
pub mod TimedParts
