-- The longest run by two tables.
pub mod Range
pub mod Between
pub mod RangeOrder
pub mod Outcome
pub mod Laws
pub mod Flat
