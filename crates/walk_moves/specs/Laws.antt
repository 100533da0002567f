pub mod AllowedLaws
pub mod DueLaws
pub mod MoveLaws
pub mod NextLaws
pub mod OfferLaws
pub mod PositionLaws
pub mod RunningLaws
