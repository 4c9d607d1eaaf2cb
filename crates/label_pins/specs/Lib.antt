pub mod PinHeights
pub mod PinHeightLaws
