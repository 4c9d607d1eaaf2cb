pub mod LabelVisits
pub mod BoundLaws
pub mod ReadyLaws
pub mod AskLaws
pub mod LabelVisitLaws
pub mod TopLaws
