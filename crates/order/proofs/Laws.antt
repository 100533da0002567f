pub mod CompleteLaws
pub mod Examples
pub mod LengthLaws
pub mod Opened
pub mod ProgressLaws
pub mod SlipLaws
pub mod StepLaws
