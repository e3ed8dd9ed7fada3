pub mod Entries
pub mod Held
pub mod Laws
pub mod Measures
pub mod Moves
pub mod Settling
pub mod Steps
pub mod Turn
