-- Layer 4, its middle: the arms of lifter.rs on tables, upvalues, closures and calls.
pub mod Objects
