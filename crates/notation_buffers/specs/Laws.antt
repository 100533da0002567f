pub mod BytesLaws
pub mod FrontLaws
pub mod LineLaws
pub mod PageLaws
pub mod PlaceLaws
pub mod WritingLaws
