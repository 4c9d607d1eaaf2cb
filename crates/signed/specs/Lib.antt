pub mod Range
pub mod RangeLaws
pub mod LagOfLaws
