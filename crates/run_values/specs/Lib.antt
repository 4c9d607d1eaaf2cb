pub mod Sheets
pub mod SheetLaws
pub mod RunnableLaws
