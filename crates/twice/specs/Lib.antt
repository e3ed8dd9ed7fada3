-- The lengths by two tables: what their passes keep.
pub mod TwiceInvariants
