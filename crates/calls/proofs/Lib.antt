pub mod Walks
pub mod Activations
pub mod Bound
pub mod Needed
pub mod Coroutines
pub mod Script
pub mod Meters
