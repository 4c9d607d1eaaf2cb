pub mod Bounds
pub mod Exists
pub mod Floor
pub mod LabelDecision
pub mod NearLaws
