pub mod ConeWords
pub mod ConeWordsLaws
