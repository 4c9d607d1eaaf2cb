pub mod Put
pub mod DigitLaws
pub mod PutLaws
