pub mod Buffers
pub mod Code
pub mod Ends
pub mod Held
pub mod Instructions
