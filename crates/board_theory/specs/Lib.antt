pub mod Boards
pub mod ConeRoot
pub mod BoardLaws
pub mod Contents
