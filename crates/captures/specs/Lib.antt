pub mod Captures
pub mod AgreesLaws
pub mod AlignOutcome
pub mod AlignTold
pub mod AlignAnswers
pub mod WordRuns
pub mod WordRunLaws
