pub mod FlagLaws
pub mod FlagsRead
pub mod ReachLaws
pub mod ReadLaws
pub mod ReplayTableLaws
pub mod SlipNumbers
pub mod StepBytes
