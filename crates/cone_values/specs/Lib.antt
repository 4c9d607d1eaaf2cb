pub mod Words
pub mod Values
pub mod FullTableLaws
pub mod RunLaws
