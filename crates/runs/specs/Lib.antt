-- Layer 2: scripts of either version, and the longest run.
pub mod Weights
pub mod Script
pub mod Run
pub mod Counted
pub mod Demand
pub mod Order
pub mod Slices
pub mod Outcome
pub mod Flat
pub mod EntryLaws
pub mod Laws
