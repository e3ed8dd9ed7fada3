-- Layer 4: which arm of lifter.rs an opcode takes.
pub mod Dispatch
