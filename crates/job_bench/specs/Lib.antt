pub mod BenchProgram
pub mod BenchJob
pub mod BenchJobLaws
pub mod BenchInputs
pub mod SectionExamples
pub mod LongBench
