pub mod FourMeters
pub mod Own
pub mod Counts
pub mod View
pub mod Alone
pub mod Refusals
pub mod Never
pub mod Independent
