pub mod Outcomes
pub mod Fields
pub mod FieldLaws
pub mod FieldListLaws
pub mod ItemsRead
pub mod ByteSteps
