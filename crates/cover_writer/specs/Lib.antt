pub mod Writing
pub mod BytesBehind
pub mod LutBytesLaws
pub mod CoverBytesLaws
pub mod LagBytesLaws
