pub mod MarkReading
pub mod MarkSizing
