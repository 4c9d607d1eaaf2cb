pub mod RunBoards
pub mod SameInputs
pub mod Wakes
pub mod ContentsLaws
pub mod ContentsNear
