pub mod Counting
pub mod LagLaws
pub mod RegisterCountLaws
pub mod CoverTaps
