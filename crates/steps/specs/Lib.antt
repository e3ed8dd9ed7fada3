-- Layer 2: the successors of a word, a folder for each version.
pub mod Ways
pub mod Executions
pub mod lua54
pub mod lua53
pub mod Laws
