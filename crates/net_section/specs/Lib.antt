pub mod SectionRead
pub mod SectionReadLaws
