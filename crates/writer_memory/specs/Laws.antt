pub mod PieceLaws
pub mod PlacedLaws
pub mod TabulatedLaws
