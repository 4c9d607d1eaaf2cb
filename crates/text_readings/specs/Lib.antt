pub mod ReadingText
pub mod ReadingTextLaws
