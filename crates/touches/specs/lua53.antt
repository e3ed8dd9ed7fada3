-- Lua 5.3.6.
pub mod Cases
pub mod Examples
