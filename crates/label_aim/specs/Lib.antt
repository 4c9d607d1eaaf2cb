pub mod Aims
pub mod AimLaws
