pub mod Pages
pub mod Spaced
pub mod Writing
