pub mod Question
pub mod Separating
pub mod ChosenCut
