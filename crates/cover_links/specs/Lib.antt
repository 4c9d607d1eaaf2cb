pub mod LinkPlaces
pub mod Links
pub mod LinkPlaceLaws
pub mod LinkLaws
