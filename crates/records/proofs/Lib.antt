pub mod ElementWise
pub mod Fallbacks
pub mod Laws
pub mod Sources
