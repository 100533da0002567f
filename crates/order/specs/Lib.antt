pub mod Code
pub mod OrderBytes
pub mod OrderSteps
pub mod Orders
pub mod Replay
pub mod Slips
pub mod States
