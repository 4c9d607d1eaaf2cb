pub mod BenchText
pub mod BenchAsked
pub mod BenchTextLaws
pub mod BenchExamples
