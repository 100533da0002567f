pub mod WrittenTableLaws
