pub mod IsMarks
pub mod Marks
pub mod PairParts
pub mod RunParts
pub mod TableParts
