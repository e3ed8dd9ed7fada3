-- Compiled files: the readers of a byte, a number, a string and a constant, as lundump.c's loaders; then what
-- stands in the lent slices.
pub mod Reading
pub mod Loaders
pub mod Lent
