pub mod Chains
pub mod Code
pub mod File
pub mod Judgement
pub mod Records
pub mod Tables
