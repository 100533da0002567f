pub mod Examples
pub mod FoundSizes
pub mod Opened
pub mod SheetSizes
