-- Lua 5.3.6.
pub mod Reading
