pub mod EffectWrites
pub mod MovingLaws
pub mod StepCases
