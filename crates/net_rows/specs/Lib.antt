pub mod RowParts
pub mod RowLaws
pub mod PinSpreadLaws
pub mod GateLaws
pub mod OutputLaws
