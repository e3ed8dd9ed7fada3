-- Which words of a run make a row.
pub mod Rows
