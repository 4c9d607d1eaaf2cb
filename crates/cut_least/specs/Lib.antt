pub mod CutRounds
pub mod Collect
pub mod CollectLaws
pub mod CutAnswer
