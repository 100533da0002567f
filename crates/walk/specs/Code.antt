pub mod FromState
