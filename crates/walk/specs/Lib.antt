pub mod Code
pub mod Demand2
pub mod FailingOrders
pub mod Moves
pub mod Paths
pub mod Trees
pub mod WalkEntry
pub mod Walks
