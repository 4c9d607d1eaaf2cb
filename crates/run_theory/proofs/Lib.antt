pub mod AgoLaws
pub mod BenchLaws
pub mod StepLaws
