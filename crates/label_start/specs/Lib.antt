pub mod Starts
pub mod StartLaws
pub mod FillSteps
