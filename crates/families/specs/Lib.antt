-- Layer 4, its middle: the arms of lifter.rs on loads, arithmetic and control.
pub mod Families
