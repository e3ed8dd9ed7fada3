-- The text of the bench program: numbers in columns, lines, the sheet and the lines of the listing.
pub mod Columns
pub mod Line
pub mod Format
pub mod Rows
pub mod Claims
pub mod Laws
