pub mod Traces
pub mod TraceLaws
pub mod CellLaws
pub mod ContentsWritten
pub mod TablesApart
