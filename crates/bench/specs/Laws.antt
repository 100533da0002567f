pub mod Opened
pub mod Overload
