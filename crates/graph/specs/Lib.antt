-- The argument about runs, over any graph.
pub mod Graph
pub mod Marks
pub mod Longest
pub mod Meaning
pub mod Laws
pub mod Ceiling
pub mod Monotone
pub mod Unreachable
pub mod Distance
pub mod Crossing
pub mod Assignment
