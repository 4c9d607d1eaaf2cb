pub mod Settling
pub mod SettlingLaws
