pub mod Lookup
pub mod Sides
pub mod LookupExamples
