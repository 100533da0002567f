pub mod Accepted
pub mod Blocking
pub mod Code
pub mod Jobs
pub mod ReadEntries
pub mod Relations
pub mod Response
pub mod ResponseDemand
