pub mod CopyLists
pub mod CopyListLaws
pub mod CopyPinLaws
