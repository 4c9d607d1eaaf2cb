pub mod ClassText
pub mod ClassTextLaws
