pub mod Same
pub mod Words
pub mod Unsigned
pub mod Texts
