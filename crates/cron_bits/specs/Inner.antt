pub mod RowLaws
pub mod Rows
