pub mod AdvanceLaws
pub mod MadeLaws
pub mod PairedLaws
pub mod PairedLegal
pub mod PairingLaws
pub mod Pairings
pub mod PreemptionLaws
