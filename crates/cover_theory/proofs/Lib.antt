pub mod SharedLaws
pub mod SharedCovers
pub mod CoverLabels
