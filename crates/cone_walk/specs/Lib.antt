pub mod Walking
pub mod WalkTold
pub mod WalkToldLaws
