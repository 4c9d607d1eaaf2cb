pub mod Lattice
pub mod Choice
pub mod CutDecision
