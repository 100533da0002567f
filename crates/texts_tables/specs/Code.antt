pub mod Overfull
pub mod PartFields
pub mod TableReading
