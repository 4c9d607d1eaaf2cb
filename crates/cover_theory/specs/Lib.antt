pub mod Covers
pub mod Forward
pub mod Board
pub mod Key
pub mod Depths
pub mod Satisfies
pub mod Routes
pub mod SharedRegisters
