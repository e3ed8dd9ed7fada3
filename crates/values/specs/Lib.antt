-- Layer 4, its ground: the value types and the lookups.
pub mod Few
pub mod Spans
pub mod Values
