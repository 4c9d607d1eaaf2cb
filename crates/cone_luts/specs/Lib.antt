pub mod Luts
pub mod LutLaws
