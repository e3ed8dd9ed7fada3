pub mod Widths
pub mod Columns
pub mod Compare
pub mod Round
pub mod Scanned
pub mod Justified
pub mod Claims
pub mod Laws
