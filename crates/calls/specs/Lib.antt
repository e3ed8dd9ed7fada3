-- A whole script: functions that call one another, and what they run between two services.
pub mod Control
pub mod Bound
pub mod Needed
pub mod Coroutines
pub mod Script
pub mod Meters
