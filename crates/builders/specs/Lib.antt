-- Layer 4, beneath the arms of lifter.rs: the lists that they push, and what several of them share.
pub mod Shapes
pub mod Parts
