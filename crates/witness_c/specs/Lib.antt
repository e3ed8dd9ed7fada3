-- What C gets of an answer.
pub mod Flat
pub mod Flattened
