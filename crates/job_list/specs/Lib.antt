pub mod Asked
pub mod Lines
pub mod Texts
pub mod ListerInputs
