-- Lua 5.4.8.
pub mod Cases
pub mod Examples
