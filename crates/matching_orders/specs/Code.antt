pub mod OrderWritten
pub mod Rows
