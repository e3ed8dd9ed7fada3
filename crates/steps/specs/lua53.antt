-- Lua 5.3.6.
pub mod Columns
pub mod Successors
pub mod Lvm
pub mod Bad
