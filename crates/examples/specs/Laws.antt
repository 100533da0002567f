pub mod Opened
pub mod Samples
