pub mod Labels
pub mod Modes
pub mod Lower
pub mod Near
pub mod Small
pub mod Forced
