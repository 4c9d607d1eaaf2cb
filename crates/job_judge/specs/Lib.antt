pub mod MarkAnswers
pub mod JudgeMarking
pub mod Judged
pub mod MarkOutcomeLaws
pub mod JudgeLent
