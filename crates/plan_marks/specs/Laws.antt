pub mod FaultLaws
pub mod MarkLaws
pub mod RoundLaws
pub mod StoreLaws
