pub mod Some
pub mod Found
pub mod Outcome
pub mod Meaning
