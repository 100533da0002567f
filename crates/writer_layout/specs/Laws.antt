pub mod ChainLaws
pub mod CountedLaws
pub mod LayingLaws
pub mod PlacedLaws
pub mod RecordBytes
pub mod RoomLaws
pub mod WideLaws
