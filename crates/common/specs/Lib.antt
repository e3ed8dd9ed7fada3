-- Beneath the layers: what they share.
pub mod Limits
pub mod Numbers
pub mod Refusals
pub mod Chain
pub mod Flat
pub mod Lowest
pub mod Lists
