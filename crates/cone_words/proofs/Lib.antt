pub mod LeafWordLaws
pub mod WholeWordLaws
