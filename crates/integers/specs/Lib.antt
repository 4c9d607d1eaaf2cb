pub mod Parts
pub mod Order
pub mod Height
pub mod Lag
