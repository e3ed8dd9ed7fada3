-- Layer 4: the records, and the caller's list of records.
pub mod Laws
pub mod Lift
pub mod Sources
pub mod Walk
