-- Lua 5.3.6.
pub mod Opcodes
pub mod Word
pub mod Lopcodes
pub mod Table
pub mod Opmodes
