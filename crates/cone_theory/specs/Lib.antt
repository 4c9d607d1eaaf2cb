pub mod Basics
pub mod Part
pub mod Ranks
pub mod FewCopies
pub mod Reach
pub mod ChecksDecided
pub mod CopyOrder
