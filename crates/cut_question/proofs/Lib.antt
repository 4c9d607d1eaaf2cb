pub mod Few
pub mod Meaning
pub mod RestLaws
