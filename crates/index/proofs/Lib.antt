pub mod Thens
pub mod Parents
pub mod Notes
pub mod Counting
pub mod Levels
pub mod Laws
pub mod Examples
