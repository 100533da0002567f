pub mod JobWords
pub mod Laws
pub mod WriteWords
