pub mod Height
pub mod Lag
pub mod Cover
