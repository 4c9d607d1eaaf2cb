pub mod Choosing
pub mod RootMarks
pub mod RootMarksLaws
pub mod KeyCut
pub mod RootRounds
pub mod RootRoundsLaws
