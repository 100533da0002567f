pub mod Legality
pub mod Plans
pub mod Runs
