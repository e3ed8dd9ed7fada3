-- All functions of a chunk; why a file is refused.
pub mod Listing
pub mod Noting
pub mod Early
pub mod Laws
pub mod Examples
