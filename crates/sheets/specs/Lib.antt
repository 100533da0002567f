pub mod Sheets
pub mod SheetWords
