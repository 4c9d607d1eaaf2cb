pub mod Limits
pub mod Courses
pub mod CourseLaws
