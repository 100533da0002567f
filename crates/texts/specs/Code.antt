pub mod AddedLines
pub mod LineParts
