pub mod Classes
pub mod Turnings
pub mod TurningLaws
pub mod ClassLaws
pub mod ClassTable
pub mod Feeding
