pub mod FeedingLaws
pub mod ClassTableLaws
