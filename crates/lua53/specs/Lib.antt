-- The flat forms that are 5.3's alone.
pub mod Flat
pub mod Flattened
