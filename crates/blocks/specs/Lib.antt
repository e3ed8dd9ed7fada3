-- Request C-15: what words read and set, and one search for a block of registers.
pub mod Uses
pub mod Blocks
