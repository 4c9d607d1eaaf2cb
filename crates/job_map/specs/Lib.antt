pub mod Areas
pub mod MapSizing
pub mod MapReading
