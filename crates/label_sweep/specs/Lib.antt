pub mod Sweeps
pub mod Sweeping
pub mod EndLaws
