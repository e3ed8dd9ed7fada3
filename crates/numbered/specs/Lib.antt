-- The parts of a record as numbers, and that they say what was lent.
pub mod Payloads
pub mod Parts
