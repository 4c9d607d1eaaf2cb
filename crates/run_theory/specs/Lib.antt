pub mod Bench
pub mod BenchBytes
pub mod Rules
pub mod LevelOf
