pub mod LeafWords
pub mod WholeWords
pub mod RepeatLaws
