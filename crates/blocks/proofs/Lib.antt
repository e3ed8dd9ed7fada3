pub mod Within
pub mod Bits
pub mod Sets
pub mod Pages
pub mod Uses
pub mod Moves
pub mod Visiting
