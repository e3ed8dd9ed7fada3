-- Compiled files: the format as lundump.c reads it, the chosen function; then what contracts within the crate
-- and those over it cite.
pub mod Lundump
pub mod Chunk
pub mod Stands
pub mod Limited
pub mod Search
pub mod Examples
pub mod Full
pub mod Limits
