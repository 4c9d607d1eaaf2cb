pub mod KeptCuts
pub mod Keeping
pub mod GatherLaws
pub mod RowLaws
pub mod KeptLaws
pub mod LowSteps
