pub mod Text
pub mod LineLaws
