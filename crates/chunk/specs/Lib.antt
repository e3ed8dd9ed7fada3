-- Compiled files: the names shown; what contracts within the crate cite; what holds of both passes, of the
-- names shown and of the filled places.
pub mod Names
pub mod Filling
pub mod Claims
pub mod Examples
pub mod Places
pub mod Laws
