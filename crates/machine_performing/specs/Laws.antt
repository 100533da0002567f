pub mod EndLaws
pub mod PartReads
pub mod PartWrites
pub mod PerformedLaws
pub mod PlacedLaws
