pub mod LineTextLaws
pub mod PlacedLaws
pub mod TextLineLaws
