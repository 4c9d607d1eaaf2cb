pub mod Graphs
pub mod Parts
pub mod GraphLaws
pub mod Lowering
pub mod LoweringLaws
