pub mod Lent
pub mod ReplayParts
pub mod Shows
pub mod Sizes
pub mod SnapshotSteps
pub mod SnapshotWithin
pub mod Snapshots
pub mod StateBytes
