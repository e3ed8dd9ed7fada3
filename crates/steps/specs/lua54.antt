-- Lua 5.4.8.
pub mod Columns
pub mod Successors
pub mod Lvm
pub mod Bad
