pub mod LookupLaws
pub mod ArrayLookup
