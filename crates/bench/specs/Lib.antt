pub mod Bench
pub mod Files
pub mod Laws
pub mod SheetOfX
