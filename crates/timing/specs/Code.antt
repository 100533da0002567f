pub mod AcceptParts
pub mod BoundedTimes
pub mod IsAccepted
pub mod JobParts
pub mod ResponseParts
