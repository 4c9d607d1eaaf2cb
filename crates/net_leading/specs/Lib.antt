pub mod Heading
pub mod HeadingLaws
