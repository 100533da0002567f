pub mod PairAgreed
pub mod PairLaws
pub mod RuleLaws
pub mod StepLaws
