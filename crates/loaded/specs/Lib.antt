-- Request C-11 and the lift: what is filled from a chunk is lifted over the same bytes.
pub mod Loaded
