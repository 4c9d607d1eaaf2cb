pub mod MapAnswers
pub mod Mapping
pub mod Filling
pub mod FillingLaws
pub mod MapOutcomeLaws
pub mod Recording
