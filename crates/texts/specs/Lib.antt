pub mod Code
pub mod Grammar
pub mod Reading
pub mod TextDemand
pub mod TextEntries
pub mod TextTables
pub mod Turned
pub mod Words
