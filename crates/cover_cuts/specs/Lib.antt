pub mod Cuts
pub mod CutLaws
