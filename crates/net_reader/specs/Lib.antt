pub mod ReadAnswer
pub mod Rooms
pub mod NetStored
pub mod NetStoreLaws
pub mod NetLaws
pub mod WalkFacts
pub mod ReadWires
