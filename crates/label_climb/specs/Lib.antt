pub mod Ranges
pub mod Trials
pub mod TrialLaws
