-- a table of layouts, searched
pub mod Rows
