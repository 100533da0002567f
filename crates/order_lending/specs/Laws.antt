pub mod LendLaws
pub mod StartBytes
