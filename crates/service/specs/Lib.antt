-- Request C-22: the distance to service, and crossing edges.
pub mod Questions
pub mod Nearest
pub mod ListedWords
pub mod Crossings
pub mod Versions
pub mod Pass
pub mod Pairs
pub mod Flat
pub mod Flattened
