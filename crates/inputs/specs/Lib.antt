pub mod InputParts
pub mod InputPartLaws
