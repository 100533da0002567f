pub mod BodyLaws
pub mod HeldLaws
pub mod InstructionLaws
pub mod ValueLaws
pub mod WithinLaws
