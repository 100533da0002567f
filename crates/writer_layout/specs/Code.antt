pub mod ClaimedParts
pub mod Layouts
